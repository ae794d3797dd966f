pub mod HeadsLaw
