mod Deletions
mod Rights
mod Rising
mod Turning
mod TurnSteps
