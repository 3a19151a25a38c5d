pub mod Folder
