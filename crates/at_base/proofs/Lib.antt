mod IdText
mod Names
mod Numbers
