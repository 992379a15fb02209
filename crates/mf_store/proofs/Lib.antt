mod Example
mod Linking
mod Packing
mod Paging
mod Seeking
mod Strips
mod Words
