mod Reading
mod Requests
mod Screens
