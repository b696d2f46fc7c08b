mod HandleWords
mod Orders
mod HeldLists
mod HandlesAsked
mod GivenUp
mod Renewals
