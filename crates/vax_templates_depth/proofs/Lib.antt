mod Lines
mod Templates
mod Descriptions
