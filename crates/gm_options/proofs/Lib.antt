mod Given
mod Words
