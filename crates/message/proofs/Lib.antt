pub mod CodecLaws
pub mod RoundTrip
pub mod ZeroedLaws
pub mod FirstTrouble
