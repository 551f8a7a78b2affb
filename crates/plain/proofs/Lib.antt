mod Masked
mod Dates
