pub mod CrewLines
pub mod CrewOrders
pub mod Made
pub mod Orders
pub mod Worked
