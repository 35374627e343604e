pub mod SieveLaws
