-- Laws that the functions cite: members, what is mandatory, objects.
pub mod MemberLaws
pub mod MeetLaws
pub mod MandatoryLaws
pub mod SoundMembers
pub mod ObjectLaws
