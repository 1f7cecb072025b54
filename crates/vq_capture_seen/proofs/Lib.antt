mod NothingAsked
