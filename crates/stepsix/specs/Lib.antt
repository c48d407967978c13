pub mod StepSix
