mod Laying
mod Undoubling
mod Opening
