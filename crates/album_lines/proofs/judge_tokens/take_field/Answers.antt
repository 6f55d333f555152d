use Rattle.std.proofs.Common.{sym, ◌∙◌}
use Rattle.album_lines.proofs.Taking.{a_kind, a_policy}
use Rattle.album_lines.proofs.TakenFields.{takes_entries, takes_holder, takes_head_group, takes_groups, takes_owner, takes_who, takes_mask, takes_policy}
use Rattle.album_lines.proofs.judge_tokens.take_field.Goals as goal

pub returns-in_ok-take_entries-in-entries : goal.returns-in_ok-take_entries-in-entries
returns-in_ok-take_entries-in-entries c =
    takes_entries c.args.key.now c.args.tokens.now c.take_entries.new.tokens c.args.fields.now c.in_ok-take_entries-in-entries.field-0 c.in-entries.is c.in_ok-take_entries-in-entries.ensures

pub returns-in_ok-holder-in-kind : goal.returns-in_ok-holder-in-kind
returns-in_ok-holder-in-kind c =
    takes_holder c.args.key.now c.args.tokens.now c.take_text.new.tokens c.args.fields.now c.in_ok-holder-in-kind.field-0 c.in-kind.is
    (a_kind c.args.tokens.now c.take_text.new.tokens _ _ c.in_ok-take_text-in-kind.ensures (sym c.holder.ensures ∙ c.in_ok-holder-in-kind.was))

pub returns-in_ok-take_whole-in-group : goal.returns-in_ok-take_whole-in-group
returns-in_ok-take_whole-in-group c =
    takes_head_group c.args.key.now c.args.tokens.now c.take_whole.new.tokens c.args.fields.now c.in_ok-take_whole-in-group.field-0 c.in-group.is c.in_ok-take_whole-in-group.ensures

pub returns-in_ok-take_groups-in-groups : goal.returns-in_ok-take_groups-in-groups
returns-in_ok-take_groups-in-groups c =
    takes_groups c.args.key.now c.args.tokens.now c.take_groups.new.tokens c.args.fields.now c.in_ok-take_groups-in-groups.field-0 c.in-groups.is c.in_ok-take_groups-in-groups.ensures

pub returns-in_ok-take_text-in-owner : goal.returns-in_ok-take_text-in-owner
returns-in_ok-take_text-in-owner c =
    takes_owner c.args.key.now c.args.tokens.now c.take_text-in-owner.new.tokens c.args.fields.now c.in_ok-take_text-in-owner.field-0 c.in-owner.is c.in_ok-take_text-in-owner.ensures

pub returns-in_ok-take_text-in-who : goal.returns-in_ok-take_text-in-who
returns-in_ok-take_text-in-who c =
    takes_who c.args.key.now c.args.tokens.now c.take_text-in-who.new.tokens c.args.fields.now c.in_ok-take_text-in-who.field-0 c.in-who.is c.in_ok-take_text-in-who.ensures

pub returns-in_ok-take_whole-in-mask : goal.returns-in_ok-take_whole-in-mask
returns-in_ok-take_whole-in-mask c =
    takes_mask c.args.key.now c.args.tokens.now c.take_whole-in-mask.new.tokens c.args.fields.now c.in_ok-take_whole-in-mask.field-0 c.in-mask.is c.in_ok-take_whole-in-mask.ensures

pub returns-in_ok-of-in-policy : goal.returns-in_ok-of-in-policy
returns-in_ok-of-in-policy c =
    takes_policy c.args.key.now c.args.tokens.now c.take_whole-in-policy.new.tokens c.args.fields.now c.in_ok-of-in-policy.field-0 c.in-policy.is
    (a_policy c.args.tokens.now c.take_whole-in-policy.new.tokens _ _ c.in_ok-take_whole-in-policy.ensures (sym c.of.ensures ∙ c.in_ok-of-in-policy.was))
