mod Texts
mod Found
mod Written
