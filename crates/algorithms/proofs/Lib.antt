pub mod KindNumbers
