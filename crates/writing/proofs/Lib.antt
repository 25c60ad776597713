mod Firsts
mod Giving
mod Laid
mod Limits
mod Whole
