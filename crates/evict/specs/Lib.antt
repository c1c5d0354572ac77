pub mod PutAway
