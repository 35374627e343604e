pub mod TrackText
