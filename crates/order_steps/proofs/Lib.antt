mod Decoding
