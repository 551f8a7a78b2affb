mod Shaping
mod Sizing
mod Storing
mod Whole
