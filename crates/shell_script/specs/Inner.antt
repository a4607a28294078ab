pub mod Cuts
pub mod Fronts
pub mod LinesLeft
pub mod Parts
pub mod Said
pub mod StepsLeft
