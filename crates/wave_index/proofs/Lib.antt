mod Apart
mod Changes
mod Entries
mod Keeping
mod Taken
mod Titles
mod Versions
