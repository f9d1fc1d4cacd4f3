pub mod WorkedTable
