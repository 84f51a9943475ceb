mod Marks
mod Shelf
