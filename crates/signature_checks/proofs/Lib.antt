mod FaultPlaces
mod Differing
mod Found
