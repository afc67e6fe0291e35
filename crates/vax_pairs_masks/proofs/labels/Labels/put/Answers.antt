use Rattle.std.specs.Borrow.{Bor}
use Rattle.std.proofs.Common.{ℕ, List}
use Rattle.std.specs.Str.{bytes_eq}
use Rattle.indexmap.specs.IndexMap.{get_by}
use Rattle.vax_machine.proofs.TableLaws.{put_is}
use Rattle.vax_pairs_masks.proofs.labels.Labels.put.Goals as goal

pub returns : goal.returns
returns c =
    put_is (λ (q : Bor (List ℕ)). get_by (λ k. bytes_eq q.now k.now) c.args.self.now.places) (λ (q : Bor (List ℕ)). get_by (λ k. bytes_eq q.now k.now) c.insert.new.self) c.args.name
    c.args.place c.in_ok-insert.ensures.updates.0
