pub mod XoredStrings
