use Rattle.ktm_codec.proofs.Forms.{unambiguous_u8, unambiguous_u16, unambiguous_u32, unambiguous_u64, unambiguous_text, unambiguous_value, unambiguous_bytes, one_u8, one_u16, one_u32, one_u64, one_text, one_value, one_bytes}
use Rattle.ktm_codec.proofs.little_endian.law_of_spellings.Goals as goal

pub returns : goal.returns
returns c = record {
  u8s = (unambiguous_u8, one_u8);
  u16s = (unambiguous_u16, one_u16);
  u32s = (unambiguous_u32, one_u32);
  u64s = (unambiguous_u64, one_u64);
  texts = (unambiguous_text, one_text);
  values = (unambiguous_value, one_value);
  bytes = (unambiguous_bytes, one_bytes);
}
