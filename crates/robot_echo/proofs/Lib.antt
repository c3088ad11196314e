mod Names
mod Marks
