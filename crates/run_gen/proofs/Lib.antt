mod TextLemmas
mod Worked
