pub mod Upload
