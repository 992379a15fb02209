mod Forms
mod Numbers
mod PartLists
