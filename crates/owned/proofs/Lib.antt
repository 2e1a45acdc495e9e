mod Asking
mod Fewer
mod Laid
mod Parts
