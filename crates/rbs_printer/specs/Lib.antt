pub mod Again
pub mod Lists
pub mod Printed
pub mod Words
