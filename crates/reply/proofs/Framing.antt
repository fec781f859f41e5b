-- A payload put into its frame piece by piece. Assumes nothing.
use Rattle.std.proofs.Common.{◌≡◌, ℕ, ◌+◌, List, [], ◌∷◌, ◌++◌, length, ap, ◌∙◌}
use Rattle.checksum.specs.Checksum.{jis_checksum}
use Rattle.reply.specs.Frames.{jis_frame, jis_sealed}

-- LEN, then the payload, then the checksum over both
pub framed : (payload f0 f1 f2 f3 sum : List ℕ) (n : ℕ) → f0 ≡ [] → f1 ≡ f0 ++ (n + 1) ∷ [] → n ≡ length payload → f2 ≡ f1 ++ payload → sum ≡ jis_checksum f2 → f3 ≡ f2 ++ sum → f3 ≡ jis_frame payload
unfolding jis_sealed
framed payload f0 f1 f2 f3 sum n e0 e1 en e2 es e3 =
    let two : f2 ≡ (length payload + 1) ∷ payload = e2 ∙ ap (λ z. z ++ payload) (e1 ∙ ap (λ z. z ++ (n + 1) ∷ []) e0) ∙ ap (λ k. (k + 1) ∷ payload) en in
    e3 ∙ ap (λ z. f2 ++ z) es ∙ ap jis_sealed two
