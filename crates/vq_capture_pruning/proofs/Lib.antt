mod AlikeClocks
mod AlikeSteps
mod OpenLanes
