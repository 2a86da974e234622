pub mod FirstStep
pub mod FollowSound
pub mod RulesOffered
pub mod Silent
pub mod StepsSound
pub mod TakenQuiet
