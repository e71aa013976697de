mod Asking
mod IteratorRest
