use Rattle.std.proofs.Common.{◌∙◌, ◌++◌, ℕ, List, ap, subst}
use Rattle.std.specs.Io.KnownBytes.{Appends}
use Rattle.gm_play.proofs.playing.play_and_write.Goals as goal

pub returns-in-Ok-clause-ok : goal.returns-in-Ok-clause-ok
returns-in-Ok-clause-ok g c k limits reading h =
    let p = c.in_ok-play_line.ensures k limits reading h in
    record {
      text = p.text;
      new = p.new;
      tells = p.tells;
      printed =
          subst (λ (l : List ℕ). Appends (g.W.Write.contents c.args.writer.now) (g.W.Write.contents c.write_all.new.self) l)
          (c.deref.ensures.value ∙ (p.printed ∙ ap (λ (l : List ℕ). l ++ p.text) c.new-text.ensures.items)) c.in-Ok.ensures.bytes;
      ready = p.ready;
    }
