use Rattle.std.proofs.Common.{◌≡◌, ◌+◌, length, ap, sym, ◌∙◌, arith, rules, Some}
use Rattle.album_passes.specs.Desk.{first_owner}
use Rattle.album_partition.specs.Partition.{PartitionState, first_partition}
use Rattle.album_keepers.proofs.StartLemmas.{first_keeper, last_of}
use Rattle.album_keepers.proofs.start.last_keeper.Goals as goal

pub new-requires-clause-number : goal.new-requires-clause-number
new-requires-clause-number g c =
    let partitions = first_partition g.J.DeskNames.terms.checked g.J.DeskNames.terms.parts g.J.DeskNames.terms.limit g.J.DeskNames.terms.opening in
    let p = last_of partitions (c.args.part + 1) c.args.partitions.now.items c.pop-2.new.self.items c.pop-2.result c.in_ok-partition.partition
    c.requires.partitions.count_is c.requires.partitions.each c.pop-2.ensures.items (search rules) in
    let at_p : c.args.part ≡ length c.pop-2.new.self.items = (let one = p.0 in omega arith) in
    at_p ∙ sym (ap (λ (q : PartitionState). q.number) p.1)

pub new-requires-clause-is : goal.new-requires-clause-is
new-requires-clause-is g c =
    let partitions = first_partition g.J.DeskNames.terms.checked g.J.DeskNames.terms.parts g.J.DeskNames.terms.limit g.J.DeskNames.terms.opening in
    let owners = first_owner (record { table = g.J.BoardNames.table; terms = g.J.DeskNames.terms }) in
    let p = last_of partitions (c.args.part + 1) c.args.partitions.now.items c.pop-2.new.self.items c.pop-2.result c.in_ok-partition.partition
    c.requires.partitions.count_is c.requires.partitions.each c.pop-2.ensures.items (search rules) in
    let o = last_of owners (c.args.part + 1) c.args.owners.now.items c.pop.new.self.items c.pop.result c.in_ok-owner.owner
    c.requires.owners.count_is c.requires.owners.each c.pop.ensures.items (search rules) in
    let at_p : length c.pop-2.new.self.items ≡ c.args.part = (let one = p.0 in omega arith) in
    let at_o : length c.pop.new.self.items ≡ c.args.part = (let one = o.0 in omega arith) in
    first_keeper g.J.BoardNames.table g.J.DeskNames.terms c.args.part c.in_ok-partition.partition c.in_ok-owner.owner
    (p.1 ∙ ap partitions at_p) (o.1 ∙ ap owners at_o)

pub returns-clause-owners : goal.returns-clause-owners
returns-clause-owners g c =
    let first = first_owner (record { table = g.J.BoardNames.table; terms = g.J.DeskNames.terms }) in
    let there : c.pop.result ≡ Some c.in_ok-owner.owner = search rules in
    let t = last_of first (c.args.part + 1) c.args.owners.now.items c.pop.new.self.items c.pop.result c.in_ok-owner.owner
    c.requires.owners.count_is c.requires.owners.each c.pop.ensures.items there in
    record {
      count_is = (let one = t.0 in omega arith);
      each = λ k d l. t.2 k d (let one = t.0 in omega arith);
    }

pub returns-clause-partitions : goal.returns-clause-partitions
returns-clause-partitions g c =
    let first = first_partition g.J.DeskNames.terms.checked g.J.DeskNames.terms.parts g.J.DeskNames.terms.limit g.J.DeskNames.terms.opening in
    let there : c.pop-2.result ≡ Some c.in_ok-partition.partition = search rules in
    let t = last_of first (c.args.part + 1) c.args.partitions.now.items c.pop-2.new.self.items c.pop-2.result c.in_ok-partition.partition
    c.requires.partitions.count_is c.requires.partitions.each c.pop-2.ensures.items there in
    record {
      count_is = (let one = t.0 in omega arith);
      each = λ k d l. t.2 k d (let one = t.0 in omega arith);
    }
