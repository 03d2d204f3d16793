mod Agree
mod Complete
mod Covered
mod DataText
mod Files
mod ValuesBack
mod Means
mod OneSet
mod OnlyPieces
mod PrintMeans
mod PrintedZones
mod Samples
mod Sound
mod StringsBack
mod Written
pub mod Fits
pub mod Items
pub mod Joins
pub mod Lefts
pub mod Numbers
pub mod PrintedData
pub mod PrintedZone
pub mod Scanning
pub mod Starts
pub mod Strings
pub mod FileRead
mod Hexadecimal
mod TypeWords
