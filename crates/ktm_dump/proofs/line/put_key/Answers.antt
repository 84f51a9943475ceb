use Rattle.ktm_dump.proofs.Puts.{broken_as, broken_more, broken_then, put_as, put_then}
use Rattle.std.proofs.Common.{[], ◌∷◌, ap, codes}
use Rattle.ktm_codec.specs.Hex.{hex_or_dash}
use Rattle.ktm_codec.specs.Quoted.{quoted}
use Rattle.ktm_dump.proofs.line.put_key.Goals as goal

pub returns-in-Err : goal.returns-in-Err
returns-in-Err g c =
    broken_more _ _ _ (10 ∷ []) (broken_more _ _ _ (hex_or_dash c.args.item.now.value) (broken_more _ _ _ (codes " ") (broken_more _ _ _ (quoted c.args.item.now.key) c.in-Err.ensures)))

pub returns-in-Err-put_quoted : goal.returns-in-Err-put_quoted
returns-in-Err-put_quoted g c =
    broken_more _ _ _ (10 ∷ []) (broken_more _ _ _ (hex_or_dash c.args.item.now.value) (broken_more _ _ _ (codes " ") (broken_then _ _ _ _ _ c.in_default.ensures (broken_as _ _ _ (quoted c.args.item.now.key) (ap quoted c.as_slice.ensures) c.in-Err-put_quoted.ensures))))

pub returns-in-Err-put : goal.returns-in-Err-put
returns-in-Err-put g c =
    broken_more _ _ _ (10 ∷ []) (broken_more _ _ _ (hex_or_dash c.args.item.now.value) (broken_then _ _ _ _ _ (put_then _ _ _ _ _ c.in_default.ensures (put_as _ _ _ (quoted c.args.item.now.key) (ap quoted c.as_slice.ensures) c.in_default-put_quoted.ensures)) c.in-Err-put.ensures))

pub returns-in-Err-put_hex_or_dash : goal.returns-in-Err-put_hex_or_dash
returns-in-Err-put_hex_or_dash g c =
    broken_more _ _ _ (10 ∷ []) (broken_then _ _ _ _ _ (put_then _ _ _ _ _ (put_then _ _ _ _ _ c.in_default.ensures (put_as _ _ _ (quoted c.args.item.now.key) (ap quoted c.as_slice.ensures) c.in_default-put_quoted.ensures)) c.in_default-put.ensures) (broken_as _ _ _ (hex_or_dash c.args.item.now.value) (ap hex_or_dash c.as_slice-2.ensures) c.in-Err-put_hex_or_dash.ensures))

pub returns-in-Err-put-2 : goal.returns-in-Err-put-2
returns-in-Err-put-2 g c =
    broken_then _ _ _ _ _ (put_then _ _ _ _ _ (put_then _ _ _ _ _ (put_then _ _ _ _ _ c.in_default.ensures (put_as _ _ _ (quoted c.args.item.now.key) (ap quoted c.as_slice.ensures) c.in_default-put_quoted.ensures)) c.in_default-put.ensures) (put_as _ _ _ (hex_or_dash c.args.item.now.value) (ap hex_or_dash c.as_slice-2.ensures) c.in_default-put_hex_or_dash.ensures)) c.in-Err-put-2.ensures

pub returns : goal.returns
returns g c =
    put_then _ _ _ _ _ (put_then _ _ _ _ _ (put_then _ _ _ _ _ (put_then _ _ _ _ _ c.in_default.ensures (put_as _ _ _ (quoted c.args.item.now.key) (ap quoted c.as_slice.ensures) c.in_default-put_quoted.ensures)) c.in_default-put.ensures) (put_as _ _ _ (hex_or_dash c.args.item.now.value) (ap hex_or_dash c.as_slice-2.ensures) c.in_default-put_hex_or_dash.ensures)) c.in_default-put-2.ensures
