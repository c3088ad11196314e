mod Lines
mod Taking
mod Texts
