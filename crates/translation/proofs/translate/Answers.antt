use Rattle.std.proofs.Common.{◌≡◌, length, Ok, sym, ap, ◌∙◌, subst, arith}
use Rattle.language.specs.Table.{root_of}
use Rattle.translation.specs.Translated.{nodes, ReadyC}
use Rattle.translation.proofs.Forms.{numbered_c, sound_of}
use Rattle.translation.proofs.Parts.{end_c}
use Rattle.translation.proofs.Programs.{program_done, program_of, ready_root}
use Rattle.translation.proofs.translate.Goals as goal

pub command-requires : goal.command-requires
command-requires c =
    let t = c.new-translator.result in
    let e : c.root-root.result ≡ root_of (nodes t) = c.root-root.ensures ∙ ap root_of (sym c.new-translator.ensures.nodes) in
    subst (ReadyC t) (sym e) (ready_root t c.new-translator.ensures.code c.new-translator.ensures.scope)

pub emit-requires : goal.emit-requires
emit-requires c =
    let t = c.new-translator.result in
    let e : c.root-root.result ≡ root_of (nodes t) = c.root-root.ensures ∙ ap root_of (sym c.new-translator.ensures.nodes) in
    let r = subst (ReadyC t) (sym e) (ready_root t c.new-translator.ensures.code c.new-translator.ensures.scope) in
    omega (arith, r.names, ap length c.new-translator.ensures.code, end_c c.in_ok-command.ensures)

pub returns : goal.returns
returns c =
    let t = c.new-translator.result in
    let e : c.root-root.result ≡ root_of (nodes t) = c.root-root.ensures ∙ ap root_of (sym c.new-translator.ensures.nodes) in
    let r = subst (ReadyC t) (sym e) (ready_root t c.new-translator.ensures.code c.new-translator.ensures.scope) in
    program_of t (Ok c.into_code.result) c.new-translator.ensures.nodes c.root-root.ensures
    (program_done _ c.new-translator.ensures.scope c.new-translator.ensures.code (numbered_c _ (sound_of t) _ r.here r.sort) c.in_ok-command.ensures c.emit.ensures c.into_code.ensures)
