mod Fits
mod Matrices
mod Modes
