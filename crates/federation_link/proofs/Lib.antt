mod Rounds
mod Unread
mod Sent
mod Growing
