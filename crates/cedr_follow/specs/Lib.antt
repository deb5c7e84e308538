pub mod FollowEnds
