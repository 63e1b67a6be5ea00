mod Early
mod Renumbering
