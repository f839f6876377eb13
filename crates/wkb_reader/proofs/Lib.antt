-- The modules that belong to no one function.
mod Numbers
mod Checked
