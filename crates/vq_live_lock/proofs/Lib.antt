mod InHand
mod Meeting
mod Noting
mod Rising
mod Rung
mod Waking
