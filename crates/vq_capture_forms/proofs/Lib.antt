mod FormWords
mod SplitParts
mod ThreeParts
