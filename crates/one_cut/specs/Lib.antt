pub mod OneCut
