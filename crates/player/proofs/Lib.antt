mod LineByLine
mod Printing
