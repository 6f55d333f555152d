use Rattle.album_lasting.proofs.SettingLemmas.{deletion_stays, owner_stays, members_last, group_lasts, list_lasts}
use Rattle.album_lasting.proofs.laws.acknowledged_settings_stay.Goals as goal

pub returns-clause-deletion : goal.returns-clause-deletion
returns-clause-deletion c = λ policy b o cut me t object last is h low x. deletion_stays policy b o cut me h low x t object last is

pub returns-clause-owner : goal.returns-clause-owner
returns-clause-owner c = λ policy b o cut me t object group last owner is h low x. owner_stays policy b o cut me h low x t object group last owner is

pub returns-clause-members : goal.returns-clause-members
returns-clause-members c = λ policy b o cut me t group last members is h low own x. members_last policy b o cut me h low x t group last members is own

pub returns-clause-group : goal.returns-clause-group
returns-clause-group c = λ policy b o cut me t into last members is h low x. group_lasts policy b o cut me h low x t into last members is

pub returns-clause-list : goal.returns-clause-list
returns-clause-list c = λ policy b o cut me t item last new is h low x. list_lasts policy b o cut me h low x t new item last is
