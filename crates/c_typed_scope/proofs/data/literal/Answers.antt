use Rattle.std.proofs.Common.{rules}
use Rattle.c_typed_scope.specs.Views.{area}
use Rattle.c_typed_scope.proofs.Written.{literal_laid}
use Rattle.c_typed_scope.proofs.data.literal.Goals as goal

pub returns : goal.returns
returns c = literal_laid c.args.at c.args.bytes.now c.in_ok-label.label c.in_ok-closed.closed _ c.in_ok-number.number (area c.args.layout.now) (area c.lay.new.layout) c.if-layout.false
    c.in_ok-label.ensures c.in_ok-closed.ensures (search rules) c.in_ok-number.ensures
