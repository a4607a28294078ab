mod Adding
mod Claiming
mod Hiring
mod Leaves
mod Lending
